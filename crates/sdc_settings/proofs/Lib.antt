pub mod Ranges
pub mod Naming
pub mod Sourced
pub mod Sourcing
pub mod Giving
pub mod Fixing
pub mod Keying
pub mod OneSettings
mod Worked
