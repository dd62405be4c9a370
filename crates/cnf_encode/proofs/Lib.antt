mod Answering
mod KeyValues
mod Running
mod SettingsPut
mod Coding
pub mod Normals
mod Completing
pub mod Keyed
mod Choosing
mod Tabled
mod Cubed
mod CellTables
pub mod Formed
pub mod Listing
mod Inputs
mod Captures
mod Layering
mod CellClauses
mod Needing
mod Made
mod MadeQueries
mod Covered
mod Covering
mod Placing
mod Pushing
mod Valued
mod Standing
