pub mod Words
pub mod Taken
