pub mod Accesses
pub mod Bits
pub mod Events
