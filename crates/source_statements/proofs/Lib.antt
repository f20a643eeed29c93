pub mod Names
pub mod Sizes
pub mod Walking
pub mod Resuming
pub mod Cases
