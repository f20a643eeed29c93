pub mod Exits
pub mod Locals
pub mod Stores
pub mod inner
