-- What only bodies use: nothing here has to be believed.
pub mod Parses
