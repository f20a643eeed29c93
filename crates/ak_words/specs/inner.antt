-- What only definitions and bodies use: nothing here has to be believed.
pub mod InRange
