pub mod Naming
pub mod Leaving
pub mod Widening
pub mod Lawfully
pub mod Topping
pub mod Fitting
pub mod Cutting
pub mod Worked
