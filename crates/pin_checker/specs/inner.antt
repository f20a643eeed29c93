-- What only the bodies of this crate stand on.
pub mod Reports
pub mod SearchViews
pub mod Found
pub mod Uses
