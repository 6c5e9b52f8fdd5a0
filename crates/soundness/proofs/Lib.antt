pub mod Facts
pub mod Shapes
pub mod Known
pub mod Broken
pub mod Tested
pub mod Under
pub mod FreshPage
