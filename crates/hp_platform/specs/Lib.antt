pub mod Agents
pub mod Board
pub mod Carrying
pub mod Live
pub mod World
