pub mod Counting
pub mod Banks
pub mod Channels
pub mod Turns
pub mod RankTables
pub mod ListSteps
pub mod Writing
