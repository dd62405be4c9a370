pub mod Clocks
pub mod Things
pub mod Delays
pub mod Cuts
pub mod Standing
pub mod Tables
