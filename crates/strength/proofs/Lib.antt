pub mod ChromaQp
pub mod Straight
pub mod Strengths
