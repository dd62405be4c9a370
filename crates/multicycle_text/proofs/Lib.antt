pub mod BraceWords
pub mod Exceptions
pub mod LineEnds
pub mod LineReads
pub mod LineSays
pub mod LineShapes
pub mod LineWords
pub mod NameBytes
pub mod NameLists
pub mod NumberWords
pub mod Numbers
pub mod Parts
pub mod ScriptReads
mod Worked
