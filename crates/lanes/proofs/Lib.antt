pub mod Unsigned
pub mod ByLane
