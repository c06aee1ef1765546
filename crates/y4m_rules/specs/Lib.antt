pub mod Frames
pub mod Header
pub mod Misreads
pub mod Numbers
pub mod Words
