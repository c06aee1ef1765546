pub mod Check
pub mod Pivots
