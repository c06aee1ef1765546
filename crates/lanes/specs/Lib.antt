pub mod Unsigned
pub mod Lanes
