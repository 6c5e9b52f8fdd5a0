pub mod Flags
pub mod Rows
pub mod Stands
pub mod Lands
pub mod Exhibits
pub mod Rule
