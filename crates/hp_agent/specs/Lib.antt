pub mod Speaking
pub mod Kinds
pub mod Questions
pub mod Programs
