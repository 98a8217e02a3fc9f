pub mod Moves
pub mod Alike
pub mod Totals
