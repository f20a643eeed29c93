-- What only bodies use.
pub mod Behind
pub mod Conditions
pub mod Labels
