pub mod Table
pub mod Next
pub mod Entry
pub mod Engine
