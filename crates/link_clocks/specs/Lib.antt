pub mod Netlists
pub mod Marks
pub mod Offs
