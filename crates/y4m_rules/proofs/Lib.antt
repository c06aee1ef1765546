pub mod Frames
pub mod Header
pub mod Numbers
pub mod Printing
pub mod Reading
pub mod Runs
