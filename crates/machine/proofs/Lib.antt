pub mod LentRooms
pub mod Refused
pub mod Lending
pub mod OrderRules
