pub mod Filters
pub mod Standing
pub mod Searching
pub mod Basing
pub mod Rounding
pub mod Ending
