pub mod Ready
pub mod Running
pub mod Orders
pub mod Verdicts
pub mod Told
pub mod Steps
pub mod Walk
pub mod WorkedRows
