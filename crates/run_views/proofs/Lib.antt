pub mod Bad
pub mod Replayed
