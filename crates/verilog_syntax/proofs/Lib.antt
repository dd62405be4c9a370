pub mod ExprLemmas
pub mod ListLemmas
pub mod Worked
