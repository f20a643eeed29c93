pub mod Progress
pub mod Ends
pub mod inner
