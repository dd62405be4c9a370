pub mod EachLemmas
pub mod FrontLemmas
pub mod NameLemmas
pub mod ReadLemmas
