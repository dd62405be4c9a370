pub mod Deciding
pub mod Kept
pub mod Violations
pub mod LineLemmas
mod DigitLemmas
pub mod BlockLemmas
mod HeadLemmas
pub mod WrittenLemmas
pub mod PassedLemmas
mod StimLemmas
