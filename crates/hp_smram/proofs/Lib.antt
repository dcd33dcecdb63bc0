pub mod Bits
pub mod Reach
pub mod Writes
pub mod Spans
