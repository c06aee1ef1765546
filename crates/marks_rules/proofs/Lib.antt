pub mod Blocks
pub mod Descents
pub mod Marks
pub mod Mended
pub mod Pictures
pub mod Puts
pub mod Walks
pub mod Tidy
