pub mod Operands
pub mod Namings
