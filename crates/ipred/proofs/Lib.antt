pub mod Dc
pub mod Outcomes
pub mod Promises
pub mod Rows
pub mod Sums
