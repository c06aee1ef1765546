pub mod Bits
pub mod Call
pub mod Clip
pub mod Index
pub mod Orders
pub mod Plane
pub mod Scan
pub mod Sign
