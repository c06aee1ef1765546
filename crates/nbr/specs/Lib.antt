pub mod Gather
pub mod Checks
pub mod Arms
