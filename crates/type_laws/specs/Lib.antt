pub mod Grammatical
pub mod TypedSizes
