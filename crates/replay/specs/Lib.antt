pub mod Turns
pub mod Run
pub mod Reply
pub mod Applies
