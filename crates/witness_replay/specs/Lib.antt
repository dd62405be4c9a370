pub mod Replays
pub mod StimulusTexts
pub mod Blocks
pub mod BlockParts
pub mod Rooms
