pub mod Appending
pub mod Blanks
pub mod DatesOnly
pub mod Entering
pub mod OnePeriod
