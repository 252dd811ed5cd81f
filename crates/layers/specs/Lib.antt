pub mod Layers
pub mod Piles
pub mod Recounts
pub mod Counts
