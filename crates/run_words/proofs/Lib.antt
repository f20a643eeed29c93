pub mod Options
pub mod ParsedWords
pub mod NumberLemmas
