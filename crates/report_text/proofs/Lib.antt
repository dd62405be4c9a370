mod Lining
pub mod Rowing
mod Passing
pub mod ReadBack
mod Worked
mod WorkedOptions
mod WorkedNotices
