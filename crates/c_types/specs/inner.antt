pub mod Gathering
pub mod Parts
pub mod Functions
pub mod Files
pub mod Switches
pub mod Enumerators
