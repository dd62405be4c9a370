pub mod Members
pub mod Bases
pub mod Pools
pub mod Steps
