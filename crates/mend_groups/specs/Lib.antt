pub mod Ports
pub mod Rows
pub mod Groups
pub mod Parts
pub mod Laws
