-- What only bodies use.
pub mod Insert
