pub mod Log
pub mod Kinds
pub mod Hows
pub mod Order
pub mod Walks
pub mod Rows
