pub mod Lines
pub mod Orders
pub mod Answers
pub mod Promise
