pub mod Shielded
pub mod Worked
