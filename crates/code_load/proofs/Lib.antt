pub mod Alike
pub mod Judging
pub mod FilledRows
pub mod Lawful
pub mod Rooms
