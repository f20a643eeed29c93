pub mod SharedViews
pub mod inner
