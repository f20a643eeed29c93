pub mod CountedRows
pub mod Rows
pub mod Programs
pub mod LeftRows
