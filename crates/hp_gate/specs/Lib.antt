pub mod Openings
pub mod Rule
pub mod Seats
pub mod Sound
pub mod Steps
