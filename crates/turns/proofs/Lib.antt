pub mod Again
pub mod Copies
