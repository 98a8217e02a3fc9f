pub mod Machine
pub mod Rooms
pub mod Lending
pub mod Transitions
pub mod OrderCalls
pub mod OrderRules
