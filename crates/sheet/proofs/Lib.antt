pub mod Parts
pub mod Spans
pub mod Dates
pub mod Limits
pub mod Periods
pub mod Placement
