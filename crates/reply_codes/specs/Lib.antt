-- the codes and their numbers
pub mod Codes
