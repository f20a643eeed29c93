-- What only the bodies of this crate stand on: the tree, and what its nodes know.
pub mod Gaps
pub mod Order
pub mod Parts
pub mod Pools
pub mod Summaries
pub mod Trees
pub mod Walks
