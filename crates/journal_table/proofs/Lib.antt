pub mod Holding
pub mod Shapes
pub mod Reading
pub mod Calls
pub mod Upkeep
pub mod Compacting
pub mod Living
pub mod Standing
