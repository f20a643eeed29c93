pub mod Classes
pub mod Spans
pub mod Lexing
