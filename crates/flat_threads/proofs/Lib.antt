mod Words
mod Unsigned
mod Applies
mod Setting
pub mod Settings
mod Linked
mod ArrayFacts
mod Ran
mod Pairs
pub mod Locals
mod Instrs
mod Calcs
mod Addresses
mod FlatRuns
mod Flats
pub mod Spans
pub mod Loaded
pub mod Threads
pub mod Entering
pub mod Rooms
pub mod Standing
pub mod Turns
pub mod GoesOn
pub mod Listed
pub mod Pinned
