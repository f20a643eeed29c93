pub mod Width
pub mod Prefix
pub mod Bytes
pub mod IntType
pub mod Wrapped
pub mod inner
pub mod Num
pub mod Op
