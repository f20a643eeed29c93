pub mod Numerals
pub mod Numbers
pub mod Command
pub mod Wanted
pub mod Rows
pub mod inner
