pub mod Outcomes
pub mod Contexts
pub mod Words
