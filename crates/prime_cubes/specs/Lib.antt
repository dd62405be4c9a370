pub mod Freeing
pub mod Cells
