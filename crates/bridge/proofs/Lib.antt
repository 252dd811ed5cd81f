pub mod Rules
pub mod Circle
