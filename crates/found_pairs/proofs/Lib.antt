pub mod Writing
pub mod Names
pub mod Once
pub mod RegCells
pub mod OneLine
pub mod Scripts
pub mod Trying
pub mod Limits
pub mod Listing
pub mod Holding
pub mod Selecting
mod Worked
