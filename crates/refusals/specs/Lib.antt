pub mod Refusals
pub mod Tests
pub mod OnePeriod
pub mod DatesOnly
