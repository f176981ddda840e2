pub mod Modes
pub mod Moves
pub mod Refusals
