pub mod Calls
pub mod Edits
pub mod RightMap
pub mod Runs
pub mod Sides
