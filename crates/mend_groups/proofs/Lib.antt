pub mod Starring
pub mod Comparing
pub mod Grouping
pub mod GroupLaws
pub mod Rowing
pub mod Parting
pub mod Exact
mod Worked
