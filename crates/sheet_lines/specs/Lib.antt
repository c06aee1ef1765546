pub mod Fields
pub mod Lines
pub mod ReadCall
pub mod Words
