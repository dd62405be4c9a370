pub mod Chains
pub mod Watchings
