pub mod Descent
pub mod Marks
pub mod Mended
pub mod Pictures
