-- What only the bodies of this crate stand on: moves whose objects' owners are known.
pub mod Carrying
