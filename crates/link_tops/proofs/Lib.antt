pub mod Topping
pub mod Porting
pub mod Clashing
