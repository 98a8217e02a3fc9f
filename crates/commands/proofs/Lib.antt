pub mod Examples
pub mod Laws
pub mod Low
pub mod Rest
