pub mod TypedTrees
pub mod LoopHeaders
pub mod FurtherLocals
pub mod Marked
