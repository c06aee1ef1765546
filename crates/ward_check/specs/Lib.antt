pub mod Checks
pub mod Sizes
