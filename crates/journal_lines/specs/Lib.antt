pub mod Scanning
pub mod Places
pub mod Indexed
