pub mod Equal
pub mod First
pub mod Bridge
pub mod Places
pub mod Seeking
