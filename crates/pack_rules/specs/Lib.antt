pub mod Form
pub mod GetCall
pub mod Kept
pub mod PutCall
pub mod TakeCall
pub mod Taken
