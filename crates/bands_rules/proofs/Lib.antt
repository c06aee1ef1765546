pub mod Called
pub mod Down
pub mod Joined
pub mod Lists
pub mod Parts
pub mod Whole
pub mod Words
