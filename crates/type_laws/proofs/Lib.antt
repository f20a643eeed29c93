pub mod Written
pub mod TypedSizesProof
