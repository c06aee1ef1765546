pub mod Around
pub mod Near
pub mod Intra
pub mod Inter
pub mod Calls
