pub mod Unfolding
pub mod FullLists
