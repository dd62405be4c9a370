pub mod Inducting
pub mod Listing
pub mod Checking
