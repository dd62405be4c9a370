pub mod WordLemmas
pub mod Growing
pub mod RowLemmas
pub mod Ones
pub mod Literals
pub mod Tokens
pub mod LineLemmas
