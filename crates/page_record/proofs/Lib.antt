pub mod Inversions
