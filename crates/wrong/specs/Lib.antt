pub mod Substitutes
pub mod Refuted
pub mod Alone
pub mod Examples
pub mod Figures
pub mod Checks
