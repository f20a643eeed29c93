pub mod ListViews
pub mod inner
pub mod SpecifierViews
