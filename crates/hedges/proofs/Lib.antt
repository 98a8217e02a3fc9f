pub mod Signs
pub mod Machine
pub mod Meant
pub mod Division
pub mod Long
pub mod Jumps
pub mod Hedges
mod Trials
pub mod Negated
