pub mod Flags
pub mod Masks
pub mod Numbers
pub mod Ranks
pub mod Screen
pub mod Streams
