pub mod Handled
pub mod Homes
pub mod Passes
pub mod Steps
