pub mod Collecting
pub mod Standing
