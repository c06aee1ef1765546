pub mod Answers
pub mod Forms
pub mod Ladder
pub mod Reading
