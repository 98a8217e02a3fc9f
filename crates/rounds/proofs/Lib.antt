pub mod Cycle
pub mod Turns
