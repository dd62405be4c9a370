pub mod BlankLemmas
pub mod ConstantLemmas
pub mod FrontLemmas
pub mod NumberLemmas
pub mod ReadLemmas
pub mod WordLemmas
