pub mod Text
pub mod Read
pub mod Runs
pub mod Room
pub mod Prints
