pub mod Gated
pub mod Rewritten
pub mod Runs
pub mod Faults
