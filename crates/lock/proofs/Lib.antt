pub mod Keeps
pub mod Reach
pub mod Least
pub mod Exact
pub mod HandsOut
pub mod Lent
pub mod Order
