pub mod Parts
pub mod Tying
pub mod Same
pub mod Sounding
pub mod Settled
pub mod Running
pub mod Worked
