pub mod Bytes
pub mod Checks
pub mod Offsets
pub mod Pivots
pub mod Points
