pub mod Facts
pub mod Greatest
pub mod Changes
pub mod Moves
pub mod Knowing
pub mod Soundness
pub mod Telling
