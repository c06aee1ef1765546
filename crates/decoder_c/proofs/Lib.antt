pub mod Masks
pub mod Ranks
pub mod Screens
pub mod Once
pub mod Deblocks
pub mod Moves
