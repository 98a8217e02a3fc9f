pub mod Units
pub mod Near
pub mod Sums
pub mod Losses
