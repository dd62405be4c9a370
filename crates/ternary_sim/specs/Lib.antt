pub mod TernaryLayers
pub mod Hazards
