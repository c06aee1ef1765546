pub mod Blocks
pub mod Lends
pub mod Packed
