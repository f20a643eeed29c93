pub mod Statuses
pub mod Reports
pub mod Lines
pub mod Checks
pub mod Races
pub mod Rows
