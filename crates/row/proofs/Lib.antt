pub mod Runs
pub mod Units
