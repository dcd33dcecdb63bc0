pub mod Shares
pub mod Sharing
pub mod Voicing
pub mod Running
pub mod Leaving
