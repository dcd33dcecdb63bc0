pub mod Heads
pub mod Summing
pub mod Texts
