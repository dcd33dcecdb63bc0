pub mod Adding
pub mod Bases
pub mod Bound
pub mod Places
pub mod Staying
