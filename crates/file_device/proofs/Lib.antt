mod FlagRows
pub mod Backing
