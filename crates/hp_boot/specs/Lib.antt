pub mod Booting
pub mod Ending
