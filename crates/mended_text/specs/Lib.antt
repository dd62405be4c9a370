pub mod Scenes
pub mod Claims
pub mod Mended
pub mod Tellings
