pub mod Summary
pub mod Writes
