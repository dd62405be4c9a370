pub mod Tops
pub mod Ports
pub mod Clashes
