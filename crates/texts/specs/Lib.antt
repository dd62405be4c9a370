pub mod Bytes
pub mod Fronts
pub mod Lookups
pub mod Names
pub mod Reads
pub mod Rules
