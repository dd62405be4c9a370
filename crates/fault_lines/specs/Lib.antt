pub mod Designs
pub mod Shapes
pub mod Sources
