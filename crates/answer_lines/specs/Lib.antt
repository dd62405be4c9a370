pub mod Texts
pub mod Certs
pub mod Stimuli
pub mod Graphs
