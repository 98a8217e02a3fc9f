pub mod Elapsed
pub mod Lists
