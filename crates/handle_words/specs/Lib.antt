pub mod Handle
pub mod Rows
