pub mod Grown
pub mod Kept
pub mod Owned
