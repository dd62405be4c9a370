pub mod Invariants
pub mod Tried
