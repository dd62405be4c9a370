pub mod Checks
pub mod Cutting
pub mod Firsts
pub mod Groups
pub mod Outs
pub mod References
pub mod Roles
