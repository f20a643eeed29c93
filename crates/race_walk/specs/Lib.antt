pub mod Views
pub mod Keys
pub mod States
pub mod Blocks
pub mod Seeing
pub mod Walking
pub mod Seconds
pub mod Steps
