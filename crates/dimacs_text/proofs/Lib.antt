mod Decimals
mod Keeping
mod Taking
mod Placing
mod Heading
pub mod Worked
