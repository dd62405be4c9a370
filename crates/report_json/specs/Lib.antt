pub mod Objects
pub mod Reports
