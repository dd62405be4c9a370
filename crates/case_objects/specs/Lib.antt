pub mod Spots
pub mod Values
pub mod Subjects
pub mod CaseObjects
pub mod Causes
pub mod Stages
