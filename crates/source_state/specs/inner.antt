-- What only bodies use.
pub mod Back
pub mod LocalsBack
pub mod Locks
