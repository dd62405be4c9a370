pub mod Lines
pub mod Clauses
pub mod Causes
pub mod Registers
pub mod Named
