pub mod DatesOnly
pub mod Draft
pub mod Layouts
pub mod OnePeriod
