pub mod GrammarLaws
pub mod Zeros
pub mod Fails
pub mod Accesses
pub mod Tagged
pub mod Rows
pub mod Loaded
pub mod Fillings
