pub mod Nearness
pub mod Rounding
pub mod Sums
pub mod Losses
pub mod Recoveries
mod Trials
