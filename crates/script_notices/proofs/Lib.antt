pub mod Rests
mod Matching
mod Lowering
mod Crossing
pub mod Companies
mod Worked
