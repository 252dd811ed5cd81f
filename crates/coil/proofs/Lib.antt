pub mod Wraps
pub mod Chained
pub mod Flags
pub mod Numbered
