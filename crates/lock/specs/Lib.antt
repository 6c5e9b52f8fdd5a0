pub mod Words
pub mod Step
pub mod Applies
pub mod Moves
pub mod Allowed
pub mod Order
