mod Filling
mod Widening
pub mod Worked
