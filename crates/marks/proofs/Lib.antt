pub mod Apart
pub mod Blocks
pub mod Callers
pub mod Calls
pub mod Growing
pub mod Lists
pub mod Marking
