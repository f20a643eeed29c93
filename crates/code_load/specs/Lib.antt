pub mod Loads
pub mod Laws
pub mod inner
