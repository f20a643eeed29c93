pub mod Counts
pub mod Forms
pub mod Programs
pub mod Sizes
pub mod Laws
pub mod Rows
