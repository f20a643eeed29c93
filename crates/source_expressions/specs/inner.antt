-- What only bodies use.
pub mod Gathered
pub mod Objects
pub mod Operations
