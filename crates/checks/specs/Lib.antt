pub mod Bench
pub mod Good
pub mod Runs
