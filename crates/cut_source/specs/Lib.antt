pub mod Cuttable
pub mod Pins
pub mod Items
pub mod Sources
pub mod Below
