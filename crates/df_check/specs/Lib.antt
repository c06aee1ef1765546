pub mod Checks
pub mod BandCheck
