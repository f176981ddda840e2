pub mod Following
pub mod Channels
pub mod TallyLemmas
pub mod Whys
pub mod ForeignLines
pub mod Digits
pub mod TraceLemmas
pub mod RowLemmas
