pub mod Completing
pub mod OwnLayers
pub mod TernaryExists
pub mod TernaryReads
pub mod Steady
