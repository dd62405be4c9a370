pub mod Code
pub mod Fails
pub mod Functions
pub mod Marks
pub mod Operators
pub mod Scans
pub mod Shapes
pub mod Trees
