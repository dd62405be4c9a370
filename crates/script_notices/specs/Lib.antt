pub mod Companions
pub mod Notices
pub mod Tables
