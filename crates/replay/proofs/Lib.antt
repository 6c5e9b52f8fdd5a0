pub mod Judged
pub mod Whole
pub mod Pages
pub mod Lines
pub mod Loop
pub mod Replies
pub mod Least
