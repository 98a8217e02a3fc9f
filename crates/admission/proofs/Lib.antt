pub mod Lengths
pub mod FirstRefusals
pub mod Admitted
