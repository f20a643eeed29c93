-- What the bodies use: nothing here has to be believed.
pub mod Hands
pub mod Follows
