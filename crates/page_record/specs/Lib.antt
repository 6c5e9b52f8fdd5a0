pub mod Holders
pub mod Pages
pub mod References
