pub mod Port
pub mod Carrying
pub mod Memory
