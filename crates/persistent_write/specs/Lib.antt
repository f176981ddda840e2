pub mod Persisting
