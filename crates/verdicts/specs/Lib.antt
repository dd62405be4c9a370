pub mod Offsets
pub mod Inductive
pub mod Logs
pub mod Verdicts
pub mod Certified
pub mod Kept
