-- What only bodies use.
pub mod CodeTrees
