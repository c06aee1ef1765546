pub mod Arms
pub mod Sides
pub mod Around
pub mod Joins
pub mod Runs
pub mod Borders
pub mod Gathered
