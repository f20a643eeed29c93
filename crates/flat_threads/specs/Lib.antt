pub mod Contexts
pub mod Waits
pub mod Going
pub mod Belonging
pub mod Targets
pub mod Deeds
pub mod Laws
pub mod inner
