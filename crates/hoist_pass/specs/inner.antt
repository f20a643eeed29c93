-- What only bodies use.
pub mod Hoist
pub mod Sets
