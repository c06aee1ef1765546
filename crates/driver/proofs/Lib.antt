pub mod Copies
pub mod Leaves
pub mod Packing
