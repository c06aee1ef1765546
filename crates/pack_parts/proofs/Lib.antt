pub mod Again
pub mod Apart
