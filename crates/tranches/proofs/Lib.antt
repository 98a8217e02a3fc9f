pub mod Losses
pub mod Shares
