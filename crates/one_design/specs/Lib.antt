pub mod Answers
pub mod Designs
