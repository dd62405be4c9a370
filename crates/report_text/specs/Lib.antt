pub mod Words
pub mod Notices
pub mod Rows
pub mod Reports
pub mod Signoff
