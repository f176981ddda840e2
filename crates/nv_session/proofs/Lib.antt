pub mod Common
pub mod Coming
pub mod Promised
pub mod Awaiting
pub mod Reading
pub mod SaveSteps
pub mod Stepping
pub mod Turning
pub mod Going
pub mod Cutting
pub mod Beginning
pub mod Restoring
pub mod SessionLives
mod Faults
pub mod Copies
