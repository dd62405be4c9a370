pub mod Builtin
pub mod Libraries
