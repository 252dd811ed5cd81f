pub mod Motors
pub mod Share
pub mod Effects
pub mod Called
