pub mod AllIn
pub mod Digits
pub mod Known
pub mod Kept
pub mod HexText
pub mod Groups
pub mod StepText
pub mod StepRead
pub mod HostRows
pub mod Good
mod Rounds
