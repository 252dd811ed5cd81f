pub mod Deeds
pub mod Law
pub mod Models
pub mod Whole
