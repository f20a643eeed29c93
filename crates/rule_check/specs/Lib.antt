pub mod Reports
pub mod Seeded
pub mod Checks
pub mod Rows
pub mod inner
