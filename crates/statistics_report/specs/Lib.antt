pub mod Objects
pub mod Waits
pub mod Telling
