pub mod Computing
pub mod Many
pub mod Printed
pub mod Zeros
