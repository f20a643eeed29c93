pub mod Back
pub mod Broken
pub mod Renewals
pub mod Texts
pub mod LocalsBack
