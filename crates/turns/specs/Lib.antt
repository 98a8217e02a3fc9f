pub mod Table
pub mod Turns
