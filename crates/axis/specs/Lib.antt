pub mod Levels
pub mod Kinds
