pub mod Decimals
pub mod Lists
pub mod Ranges
pub mod Steps
mod Worked
