pub mod Safe
pub mod Faults
pub mod Answers
pub mod CheckedViews
pub mod Rows
pub mod inner
