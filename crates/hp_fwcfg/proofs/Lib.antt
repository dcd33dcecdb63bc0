pub mod Asking
pub mod Bytes
pub mod Copies
pub mod Listing
pub mod Reading
pub mod Requests
pub mod Uses
