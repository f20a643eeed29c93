-- What only the bodies of this crate stand on.
pub mod Fills
pub mod Rooms
pub mod Judged
