-- What only bodies use.
pub mod Steps
