pub mod inner
pub mod LocalViews
