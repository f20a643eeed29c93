pub mod AtOnce
pub mod Forms
pub mod Parts
pub mod Gather
pub mod Pieces
pub mod Products
pub mod LibraryCalls
