pub mod Register
pub mod Rules
pub mod Cut
pub mod Events
