pub mod Surviving
pub mod Assisting
