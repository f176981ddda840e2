pub mod Telling
pub mod OwnEvents
pub mod Reads
pub mod Lending
pub mod Gathering
