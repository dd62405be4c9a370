pub mod Lines
pub mod Marks
pub mod Scopes
pub mod Declarations
pub mod Changes
pub mod Waves
