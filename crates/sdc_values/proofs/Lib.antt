pub mod LineLemmas
pub mod ListLemmas
pub mod GetLemmas
pub mod NestedLemmas
mod Worked
