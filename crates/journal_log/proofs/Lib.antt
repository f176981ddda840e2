pub mod Spelling
pub mod Rotating
pub mod Placing
pub mod Heads
pub mod Cutting
pub mod Keeping
pub mod Reading
