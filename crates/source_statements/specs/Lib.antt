pub mod Finishing
pub mod inner
