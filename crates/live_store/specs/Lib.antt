pub mod Lives
pub mod Talks
pub mod Starts
pub mod Refusals
pub mod Lived
