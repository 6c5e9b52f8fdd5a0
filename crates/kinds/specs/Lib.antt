pub mod Limits
pub mod Numbers
pub mod Flags
