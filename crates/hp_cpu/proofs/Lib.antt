pub mod Bytes
pub mod Start
