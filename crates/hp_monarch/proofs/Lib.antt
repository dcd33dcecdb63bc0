pub mod Adds
pub mod Deciding
pub mod Fits
pub mod Looks
pub mod Order
pub mod Parts
pub mod Reports
pub mod Start
