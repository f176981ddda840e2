pub mod Changing
pub mod Spelling
pub mod Surviving
