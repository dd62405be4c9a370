pub mod Comparing
pub mod ReadingBack
pub mod Kept
pub mod Telling
pub mod Proving
mod Worked
