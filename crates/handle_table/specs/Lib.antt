pub mod Table
pub mod Frame
pub mod Words
pub mod inner
