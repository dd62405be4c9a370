pub mod Versions
pub mod Certs
