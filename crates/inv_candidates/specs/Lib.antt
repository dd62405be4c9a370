pub mod Near
pub mod Leading
pub mod Levels
pub mod Clauses
pub mod Listing
pub mod Candidates
