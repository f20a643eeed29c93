-- What only bodies and laws use.
pub mod Layout
pub mod Holds
pub mod Scoped
