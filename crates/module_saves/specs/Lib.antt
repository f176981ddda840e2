pub mod Device
pub mod Saving
pub mod Saves
pub mod Closing
