-- What only the bodies of this crate stand on.
pub mod Tails
