pub mod inner
pub mod SavedViews
pub mod Saves
