pub mod Words
pub mod Numbers
pub mod Growth
pub mod Parts
pub mod Lines
