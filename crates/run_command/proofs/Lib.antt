pub mod Ways
mod Stores
pub mod Steps
pub mod Written
mod Growing
mod Bad
