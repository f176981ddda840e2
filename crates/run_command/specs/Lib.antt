pub mod Refused
pub mod Stored
pub mod Whole
pub mod Forms
pub mod Requests
pub mod Answered
pub mod Lives
