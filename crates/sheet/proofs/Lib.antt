pub mod Founds
pub mod Lists
pub mod Outcomes
pub mod Pictures
pub mod Puts
pub mod Room
pub mod Takes
pub mod Texts
