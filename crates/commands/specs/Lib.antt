pub mod Commands
pub mod Sizes
pub mod Kinds
