pub mod Writing
pub mod Refusals
pub mod Living
pub mod Heads
