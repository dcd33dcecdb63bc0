pub mod Registers
