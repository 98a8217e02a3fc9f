pub mod Terms
pub mod Brought
pub mod Periods
pub mod Dates
pub mod Limits
pub mod Spans
pub mod Placement
