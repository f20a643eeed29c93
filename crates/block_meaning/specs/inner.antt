-- What only bodies use.
pub mod Turns
pub mod Starts
pub mod Touches
