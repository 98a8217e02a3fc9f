pub mod Taken
pub mod Products
pub mod Partway
pub mod Laws
pub mod Bounds
