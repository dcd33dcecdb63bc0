pub mod Ejecting
