pub mod Entries
pub mod Steps
pub mod Blocks
pub mod Turning
pub mod Finding
