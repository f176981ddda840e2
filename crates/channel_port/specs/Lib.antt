pub mod Waits
pub mod View
pub mod Shape
pub mod Answers
pub mod Carried
pub mod Draining
pub mod Issuing
