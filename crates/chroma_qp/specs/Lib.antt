pub mod Derived
pub mod Held
pub mod Mapping
