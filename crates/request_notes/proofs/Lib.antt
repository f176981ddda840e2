pub mod BankBits
pub mod Stood
pub mod NoteLemmas
