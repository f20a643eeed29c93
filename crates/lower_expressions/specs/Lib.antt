pub mod inner
pub mod FrameViews
