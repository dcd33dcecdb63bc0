pub mod Items
pub mod Moves
pub mod Requests
pub mod Uses
