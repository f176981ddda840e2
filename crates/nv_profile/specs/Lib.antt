pub mod Nothing
pub mod Tables
pub mod Limits
pub mod Profile
pub mod Ready
