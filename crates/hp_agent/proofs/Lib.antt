pub mod ApicIds
pub mod Doing
pub mod Said
pub mod Told
