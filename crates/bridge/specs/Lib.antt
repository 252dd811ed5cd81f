pub mod Wave
pub mod Bridged
