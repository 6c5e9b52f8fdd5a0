pub mod Carried
pub mod Images
