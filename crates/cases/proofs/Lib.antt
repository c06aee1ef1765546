pub mod Fills
pub mod Signs
pub mod Steps
