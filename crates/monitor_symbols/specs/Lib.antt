pub mod Latches
pub mod Symbols
