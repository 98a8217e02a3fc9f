pub mod Rules
pub mod Refuted
pub mod Masks
pub mod Cuts
pub mod Forever
pub mod Lasting
pub mod Trial
