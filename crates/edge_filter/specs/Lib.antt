pub mod Edges
pub mod Filter
pub mod Turns
