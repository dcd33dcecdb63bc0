pub mod Bytes
pub mod Ejects
pub mod Sending
pub mod Sizes
pub mod PortWrites
pub mod Entry
