-- What only bodies use.
pub mod Place
pub mod Together
