pub mod Tables
pub mod Rows
pub mod Kernels
pub mod Rollable
