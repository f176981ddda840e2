pub mod Ports
pub mod Set
pub mod Copies
pub mod Carrying
pub mod Draining
pub mod Paid
pub mod Issuing
