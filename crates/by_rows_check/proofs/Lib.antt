pub mod Ladder
