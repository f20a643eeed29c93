-- What only bodies use.
pub mod Rising
