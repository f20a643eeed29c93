-- What the bodies use, and no public clause.
pub mod Kept
