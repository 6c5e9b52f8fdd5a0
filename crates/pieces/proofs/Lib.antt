pub mod Joins
pub mod Carries
pub mod Judged
pub mod Runs
pub mod Least
