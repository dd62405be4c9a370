pub mod Leading
pub mod Marking
pub mod Growing
pub mod Grouping
pub mod Owning
pub mod ClauseNumbers
pub mod TableKeys
pub mod Adding
pub mod Standing
pub mod Claiming
mod Shaping
mod Worked
