pub mod Numbering
pub mod Holding
pub mod Refusing
pub mod Justifying
pub mod Gathering
