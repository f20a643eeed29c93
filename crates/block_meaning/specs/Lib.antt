pub mod Threads
pub mod Running
pub mod Counts
pub mod Asking
pub mod inner
