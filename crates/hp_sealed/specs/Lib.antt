pub mod Left
pub mod Sealed
pub mod Features
pub mod Booting
pub mod HandOver
