pub mod Face
pub mod Joined
pub mod Numbers
pub mod Promise
pub mod Words
