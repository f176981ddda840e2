pub mod Lines
pub mod Starting
pub mod FirstLogs
pub mod Turns
pub mod Hosts
pub mod Wholes
