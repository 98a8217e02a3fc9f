pub mod Meant
pub mod Refuted
pub mod Examples
