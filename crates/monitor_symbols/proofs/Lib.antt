pub mod Naming
pub mod Placed
mod Worked
