pub mod Modes
pub mod Predict
