pub mod Asked
pub mod Call
pub mod Entry
pub mod Finished
pub mod Luma
pub mod Records
pub mod Steps
