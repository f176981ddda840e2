pub mod Calls
pub mod MaybeBox
pub mod Wiring
