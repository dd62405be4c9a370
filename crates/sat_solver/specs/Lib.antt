pub mod Searches
pub mod Learning
pub mod Answers
pub mod Trails
pub mod Watches
pub mod Cuts
pub mod Markings
pub mod Engines
