pub mod Left
pub mod Faults
