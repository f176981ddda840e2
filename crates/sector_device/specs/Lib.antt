pub mod Sectors
pub mod Spare
pub mod Backing
