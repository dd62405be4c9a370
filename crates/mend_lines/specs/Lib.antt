pub mod Lines
pub mod Holds
pub mod Bodies
