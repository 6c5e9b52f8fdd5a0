pub mod Carries
pub mod Pieces
pub mod Applies
