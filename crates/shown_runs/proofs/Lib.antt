pub mod Walking
pub mod LateNets
pub mod Rests
pub mod Starting
pub mod InputRows
pub mod Hexed
pub mod Toggles
mod Worked
