pub mod Ramp
pub mod Laws
pub mod Course
