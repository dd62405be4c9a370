pub mod Levels
pub mod Readers
pub mod Cones
pub mod Those
pub mod Searches
pub mod Launches
pub mod Aims
pub mod Arrivals
