pub mod Listing
pub mod Heading
pub mod Rooms
