pub mod ListCall
pub mod Stored
pub mod TakeCall
