pub mod Drawing
pub mod Stepping
pub mod Filling
pub mod Running
pub mod Sifting
pub mod Stretching
