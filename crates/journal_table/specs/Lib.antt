pub mod Parts
pub mod Values
pub mod Standing
pub mod Calling
pub mod Living
