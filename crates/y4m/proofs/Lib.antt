pub mod Again
pub mod Outcomes
