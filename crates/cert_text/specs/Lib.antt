pub mod Certs
pub mod Causes
pub mod Found
