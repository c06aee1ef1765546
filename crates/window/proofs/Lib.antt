pub mod Lanes
pub mod Places
pub mod Rows
pub mod Windows
