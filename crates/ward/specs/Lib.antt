pub mod Faithful
pub mod Finished
pub mod Fits
pub mod RowCall
pub mod Screen
pub mod Turns
pub mod Whole
