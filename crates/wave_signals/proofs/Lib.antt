mod Splitting
mod Joining
pub mod Adding
