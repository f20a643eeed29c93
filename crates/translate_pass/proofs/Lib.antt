pub mod InsertedRows
pub mod InsertedValid
pub mod Looked
pub mod Programs
