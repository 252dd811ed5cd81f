pub mod Pulsed
