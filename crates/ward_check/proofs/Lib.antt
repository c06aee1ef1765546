pub mod Ladder
pub mod Promises
pub mod Sizes
