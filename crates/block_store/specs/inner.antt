-- What only bodies use.
pub mod Copying
