pub mod Options
pub mod Scripts
pub mod Detections
pub mod Causes
