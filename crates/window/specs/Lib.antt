pub mod Lines
pub mod Window
