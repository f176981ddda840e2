pub mod Restored
pub mod Setup
pub mod Naming
