pub mod Stands
pub mod Lists
pub mod Ran
