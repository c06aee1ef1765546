pub mod Promises
pub mod Runs
pub mod Samples
pub mod Stores
pub mod Sums
