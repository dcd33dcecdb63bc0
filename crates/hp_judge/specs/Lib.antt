pub mod Standing
pub mod Bytes
pub mod Judging
pub mod Stages
