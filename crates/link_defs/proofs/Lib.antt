pub mod Permuting
pub mod Solving
pub mod Worked
pub mod WorkedModules
mod WorkedRefusals
mod WorkedScan
