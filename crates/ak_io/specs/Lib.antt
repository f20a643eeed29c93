pub mod Faults
pub mod Bytes
pub mod ReadEnd
pub mod Calls
pub mod MemSink
pub mod MemShelf
pub mod OutSink
