pub mod DataLemmas
pub mod FailLemmas
pub mod Inversions
pub mod LawfulCells
pub mod ScopeLemmas
pub mod TextLemmas
pub mod Worked
