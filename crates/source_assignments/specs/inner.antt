-- What only bodies use.
pub mod Conversions
pub mod Numbers
