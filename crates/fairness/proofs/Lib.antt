pub mod Promise
pub mod Calls
pub mod Refuted
pub mod Meant
pub mod Examples
pub mod InTurns
pub mod WrongBacks
