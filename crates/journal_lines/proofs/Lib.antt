pub mod Places
pub mod Words
pub mod Ringing
pub mod Reading
pub mod Opening
pub mod Calling
pub mod Finding
pub mod Lying
