pub mod Results
pub mod Turns
pub mod Talking
pub mod Blank
pub mod Hearing
