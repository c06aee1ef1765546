pub mod Checks
pub mod FillCall
pub mod Inside
pub mod MotionCall
pub mod Rule
pub mod Runs
