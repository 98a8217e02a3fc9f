pub mod Digits
pub mod Images
