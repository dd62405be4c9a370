pub mod Numbered
pub mod Signals
pub mod Labels
pub mod Splits
