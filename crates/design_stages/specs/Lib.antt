pub mod Below
pub mod Designs
pub mod Stages
pub mod Texts
