mod Finding
mod Steps
mod Found
mod Touching
