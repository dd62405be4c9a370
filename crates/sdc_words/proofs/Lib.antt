pub mod BraceLemmas
pub mod CommandLemmas
pub mod LineLemmas
pub mod BlankLemmas
pub mod PieceLemmas
pub mod ReadLemmas
pub mod WordLemmas
