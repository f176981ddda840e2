pub mod Asking
pub mod Keeping
