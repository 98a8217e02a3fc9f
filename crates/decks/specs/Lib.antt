pub mod Calls
pub mod Limits
pub mod Printed
pub mod Registers
pub mod Zeros
