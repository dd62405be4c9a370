pub mod LaneSettling
pub mod SettingsPut
pub mod Running
