pub mod AtBoot
pub mod Bitmap
pub mod Ejects
pub mod Offsets
pub mod Search
