pub mod Adding
mod Firsts
pub mod Looking
pub mod Porting
mod Worked
