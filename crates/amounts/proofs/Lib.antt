pub mod Digits
pub mod Amounts
pub mod Printed
