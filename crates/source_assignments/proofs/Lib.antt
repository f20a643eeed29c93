pub mod Plain
pub mod Dropped
pub mod Tails
pub mod Sides
