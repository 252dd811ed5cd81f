mod Calling
pub mod Cuts
mod Feeding
mod Setting
mod Table
mod Turns
