pub mod Layers
pub mod LaneRows
pub mod Settings
pub mod Runs
