pub mod Bytes
pub mod Stores
pub mod Premises
pub mod Trips
pub mod Least
pub mod Lines
pub mod Buffers
