pub mod Found
pub mod Initials
pub mod Tiles
pub mod Writes
