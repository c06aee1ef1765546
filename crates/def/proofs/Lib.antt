pub mod Answers
pub mod Blocks
pub mod Ladders
pub mod Sides
pub mod Sizes
pub mod Units
pub mod Words
