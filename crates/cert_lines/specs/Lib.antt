pub mod Texts
pub mod Derivations
pub mod Places
pub mod Kinds
pub mod SectionWords
