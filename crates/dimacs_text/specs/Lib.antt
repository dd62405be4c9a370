pub mod Tokens
pub mod Texts
pub mod Faults
pub mod Readings
