pub mod Below
pub mod Marking
pub mod Listings
pub mod Refuted
pub mod Causes
