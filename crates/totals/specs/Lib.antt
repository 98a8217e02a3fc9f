pub mod Totals
pub mod Sums
