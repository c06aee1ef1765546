pub mod Accepted
pub mod Near
pub mod Around
pub mod Readings
