pub mod BadLines
pub mod Reasons
