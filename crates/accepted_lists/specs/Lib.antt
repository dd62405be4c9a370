pub mod Days
pub mod Entries
pub mod Lists
pub mod InForce
pub mod Accepted
pub mod Remarks
