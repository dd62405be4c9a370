pub mod NamedBits
pub mod BitTexts
