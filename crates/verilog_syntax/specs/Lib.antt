pub mod Exprs
pub mod Items
pub mod Lists
pub mod Modules
pub mod Parts
pub mod Ports
