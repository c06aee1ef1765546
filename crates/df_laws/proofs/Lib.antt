pub mod Apart
pub mod Demand3
pub mod Finished
pub mod Joined
pub mod Luma
pub mod Moved
pub mod Parted
pub mod Unmarked
