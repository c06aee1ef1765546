pub mod Bands
pub mod Demand3
pub mod Finished
pub mod Luma
pub mod Moved
pub mod Unmarked
