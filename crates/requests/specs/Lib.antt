pub mod Premises
pub mod Answers
pub mod Requests
pub mod Applies
