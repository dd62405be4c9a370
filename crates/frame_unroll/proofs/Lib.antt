pub mod Starting
mod Listed
mod Spreading
mod Moving
pub mod Driving
pub mod Reading
mod Framing
pub mod Numbering
mod GateTables
mod Layering
pub mod Adding
mod Rows
mod OriginRange
mod RowBits
mod Marks
pub mod Captured
pub mod Tabled
mod Marking
mod Saying
pub mod Paired
pub mod Using
pub mod UsingLate
pub mod UsedRead
mod Reaching
mod KeyRange
mod KeyOrder
mod Needed
pub mod Asking
pub mod Bounded
mod KeyPages
mod KeySets
