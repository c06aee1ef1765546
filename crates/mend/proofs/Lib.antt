pub mod Apart
pub mod Calls
pub mod Kept
pub mod Lists
pub mod Torn
