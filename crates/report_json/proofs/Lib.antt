mod Floats
pub mod Asking
mod Worked
mod WorkedOptions
