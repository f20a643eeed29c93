pub mod ContextViews
pub mod inner
pub mod Telling
pub mod Rows
