pub mod Forms
pub mod Lines
pub mod Written
pub mod Header
pub mod Reader
pub mod Trace
pub mod Fault
