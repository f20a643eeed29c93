-- What only the bodies of this crate stand on.
pub mod Arrays
pub mod Flat
pub mod Steps
pub mod Parts
pub mod Places
pub mod Runs
