pub mod Verdicts
pub mod Reasons
pub mod Formed
pub mod Least
