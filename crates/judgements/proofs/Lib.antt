pub mod Verdicts
pub mod Enough
