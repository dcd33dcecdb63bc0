pub mod Order
pub mod Session
