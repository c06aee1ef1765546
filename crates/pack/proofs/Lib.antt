pub mod Apart
pub mod Calls
pub mod Writing
