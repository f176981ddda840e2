pub mod Waiting
pub mod Inside
pub mod Lookouts
pub mod Shifts
