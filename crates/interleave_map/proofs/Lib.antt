pub mod Closures
pub mod Counting
pub mod Digits
pub mod Exchange
pub mod Numbering
pub mod Onto
pub mod PowersOfTwo
pub mod ReadyMaps
