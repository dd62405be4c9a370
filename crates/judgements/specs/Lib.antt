pub mod Judgements
pub mod Certificates
pub mod Reports
