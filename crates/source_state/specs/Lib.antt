pub mod Kept
pub mod inner
pub mod Worlds
pub mod Variables
pub mod Views
pub mod Operations
