pub mod Cells
pub mod Handlers
