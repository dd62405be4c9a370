pub mod Lists
pub mod Sounding
pub mod Capturing
pub mod Passing
pub mod Settled
pub mod Running
pub mod Showing
