pub mod Again
pub mod Import
