pub mod Leaving
pub mod Marking
pub mod OneJudged
pub mod Worked
