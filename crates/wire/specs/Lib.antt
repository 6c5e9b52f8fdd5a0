pub mod Bytes
pub mod Buffers
pub mod Requests
pub mod Answers
pub mod Applies
