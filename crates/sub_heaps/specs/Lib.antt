pub mod ByPlace
pub mod SubHeaps
pub mod inner
pub mod Moving
