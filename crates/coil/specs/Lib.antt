pub mod Modulo
pub mod Coils
pub mod Lending
pub mod Directions
pub mod Numbers
pub mod Meaning
pub mod Chains
pub mod Kept
