pub mod Formats
pub mod Passed
pub mod Walked
pub mod Fronts
