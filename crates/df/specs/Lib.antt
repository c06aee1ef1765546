pub mod Band
pub mod ByRows
pub mod Deblock
pub mod Plan
