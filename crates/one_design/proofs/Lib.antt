pub mod CutNames
pub mod Differing
pub mod Finding
pub mod Fixing
pub mod Leaving
pub mod Linking
pub mod Reading
pub mod Selecting
