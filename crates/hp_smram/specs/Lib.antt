pub mod Memory
pub mod Reach
pub mod Writes
pub mod Spans
