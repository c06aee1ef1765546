pub mod Modes
pub mod Parts
