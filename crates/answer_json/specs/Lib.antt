pub mod Told
pub mod Commands
pub mod Refusals
pub mod Answers
pub mod Lines
