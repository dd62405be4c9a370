pub mod Chain
pub mod Texts
