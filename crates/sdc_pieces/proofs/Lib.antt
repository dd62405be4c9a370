pub mod PieceLemmas
mod Worked
