mod Lists
mod Decimals
mod Parts
pub mod Steps
mod LineSteps
mod Worked
mod WorkedTellings
mod Causes
