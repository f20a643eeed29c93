pub mod TypedRowsProof
pub mod ListedViews
