pub mod ChainLemmas
pub mod Growing
pub mod HeightLemmas
pub mod MarkLemmas
pub mod Scanning
pub mod Telling
