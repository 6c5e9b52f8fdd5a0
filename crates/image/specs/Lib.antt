pub mod Keeping
pub mod Applies
pub mod Samples
