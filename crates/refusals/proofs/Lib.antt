pub mod FirstTest
pub mod Judged
pub mod Limits
pub mod Meanings
mod Trials
pub mod OnePeriod
pub mod DatesOnly
