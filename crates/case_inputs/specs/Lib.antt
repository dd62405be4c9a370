pub mod Ties
pub mod Assumed
pub mod Faults
pub mod Runs
