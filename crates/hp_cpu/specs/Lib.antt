pub mod Changes
pub mod Saving
pub mod Smbase
