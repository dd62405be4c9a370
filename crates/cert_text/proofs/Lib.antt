pub mod ProofTexts
pub mod PairTexts
pub mod CertTexts
pub mod ReadLemmas
pub mod VersionLemmas
pub mod FoundLemmas
pub mod Spelling
pub mod Complete
