pub mod Answers
pub mod Blocks
pub mod Components
pub mod Formats
pub mod Picture
pub mod Refusals
pub mod Units
pub mod Word
