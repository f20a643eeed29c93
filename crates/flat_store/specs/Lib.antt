pub mod Flat
pub mod Word
