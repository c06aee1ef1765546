pub mod Plane
pub mod Recon
