pub mod Inputs
pub mod Narrow
pub mod Usable
