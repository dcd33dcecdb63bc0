pub mod Comparing
pub mod Finding
pub mod Slices
pub mod Standing
pub mod Storing
pub mod Values
