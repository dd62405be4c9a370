mod Worked
pub mod Fixing
pub mod Firsts
pub mod Numbering
pub mod Holding
pub mod Fitting
pub mod Meeting
pub mod Commands
pub mod Leading
