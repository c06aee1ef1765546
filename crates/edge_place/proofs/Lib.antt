pub mod Plans
pub mod Units
