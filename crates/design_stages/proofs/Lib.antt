pub mod Cutting
pub mod Judging
pub mod Multipliers
pub mod Refusing
pub mod Staging
pub mod Topping
pub mod Whole
mod Worked
