pub mod Holding
pub mod Stretches
pub mod Sliding
pub mod inner
