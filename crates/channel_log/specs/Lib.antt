pub mod Log
pub mod Between
pub mod LogRule
pub mod Seats
pub mod ReadLines
