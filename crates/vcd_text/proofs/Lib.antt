pub mod Words
pub mod Commons
mod Vars
mod Pushes
