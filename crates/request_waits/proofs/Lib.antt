pub mod Percentiles
