pub mod Gathering
pub mod Living
