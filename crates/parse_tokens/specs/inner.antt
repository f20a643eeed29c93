pub mod Moves
pub mod Heads
pub mod Starts
