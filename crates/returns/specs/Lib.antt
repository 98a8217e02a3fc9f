pub mod Figures
pub mod Returns
