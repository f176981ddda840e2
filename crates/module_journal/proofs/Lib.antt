pub mod Joining
pub mod Living
pub mod Telling
pub mod Storing
pub mod Allowing
