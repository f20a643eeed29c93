mod Reading
mod Same
pub mod Sums
mod Bits
mod Tests
mod Shifts
mod Quotients
