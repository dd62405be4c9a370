pub mod Finding
pub mod Going
pub mod Leading
pub mod Repeating
pub mod Standing
pub mod Telling
