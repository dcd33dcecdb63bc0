pub mod Lists
pub mod Dividing
pub mod Counting
pub mod Voicing
pub mod Carrying
pub mod Hosting
pub mod Turning
pub mod Leaving
