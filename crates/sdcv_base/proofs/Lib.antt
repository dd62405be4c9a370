pub mod DecimalTexts
pub mod Filling
pub mod StepLemmas
