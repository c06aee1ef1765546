pub mod Descent
pub mod Listing
pub mod Puts
pub mod Taken
pub mod Text
pub mod Words
