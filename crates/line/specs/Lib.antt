pub mod Line
pub mod Row
