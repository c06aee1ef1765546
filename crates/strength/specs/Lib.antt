pub mod ChromaQp
pub mod Entries
