-- What bodies and laws of objects use: nothing here has to be believed.
pub mod Board
pub mod Own
