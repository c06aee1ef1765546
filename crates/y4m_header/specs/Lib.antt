pub mod ReadCall
pub mod Values
