pub mod Setters
pub mod Decisions
