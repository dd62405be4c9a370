pub mod Inputs
pub mod Sources
pub mod Settings
pub mod Causes
pub mod Stages
