pub mod Frees
pub mod Cycles3
pub mod Layers3
pub mod Firm
