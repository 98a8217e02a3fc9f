pub mod Amounts
pub mod Printed
