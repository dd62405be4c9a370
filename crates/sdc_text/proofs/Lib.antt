pub mod DelayLemmas
pub mod ScriptLemmas
mod Worked
