pub mod Membership
pub mod NoFault
