pub mod Compared
pub mod Lengths
pub mod Back
pub mod Trips
pub mod Short
pub mod Written
pub mod Least
pub mod Samples
