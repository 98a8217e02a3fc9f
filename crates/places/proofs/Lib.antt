pub mod Laws
pub mod Partway
