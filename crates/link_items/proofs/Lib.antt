pub mod Listing
pub mod Along
pub mod Joining
pub mod Searching
pub mod Naming
pub mod Pinned
pub mod Faulted
pub mod Adding
