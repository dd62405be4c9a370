pub mod Tolds
