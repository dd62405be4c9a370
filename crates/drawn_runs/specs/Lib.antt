pub mod Draws
pub mod LaneSteps
pub mod Drawn
pub mod Inputs
pub mod Sims
pub mod Sifts
pub mod Survivors
pub mod Stretches
