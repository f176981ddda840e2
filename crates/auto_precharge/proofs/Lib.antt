pub mod Settling
pub mod PlainTraces
