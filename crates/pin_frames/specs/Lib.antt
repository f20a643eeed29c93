pub mod inner
pub mod Views
