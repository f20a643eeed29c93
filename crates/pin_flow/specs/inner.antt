-- What only bodies use.
pub mod Marked
pub mod Both
