pub mod Ends
pub mod Resting
pub mod Rows
pub mod inner
