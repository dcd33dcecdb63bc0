pub mod Fits
pub mod Relocating
pub mod Roster
