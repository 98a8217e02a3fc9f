pub mod Answers
pub mod Promise
pub mod Refuted
pub mod Examples
