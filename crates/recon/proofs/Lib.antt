pub mod Checks
pub mod Lengths
pub mod Outcomes
pub mod Promises
pub mod Residuals
pub mod Rows
