pub mod FlagCall
pub mod Sides
