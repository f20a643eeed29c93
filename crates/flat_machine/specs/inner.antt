-- What only the bodies of this crate stand on.
pub mod Turneds
pub mod Dones
pub mod Acted
pub mod Prints
pub mod Swept
pub mod Shares
