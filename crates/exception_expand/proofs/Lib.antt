pub mod Results
pub mod Sharing
pub mod Placing
pub mod Cutting
pub mod Ranging
pub mod Choosing
pub mod Driving
pub mod Fitting
pub mod Siding
pub mod Asking
pub mod Claiming
pub mod Naming
pub mod Counting
pub mod Stepping
pub mod Adding
pub mod OneSelection
mod Worked
