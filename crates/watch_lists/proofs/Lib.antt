pub mod Linking
pub mod Listing
