pub mod Writes
pub mod Queue
pub mod PendingMemory
