pub mod Credits
pub mod Settled
mod Taken
pub mod Happening
pub mod Followed
pub mod Lending
pub mod Noted
pub mod Keeping
pub mod Lent
pub mod Called
pub mod CutCalled
pub mod Wholly
pub mod Restored
pub mod Returned
pub mod Joined
pub mod Parted
pub mod KeptWhole
pub mod Asked
pub mod Wrote
pub mod Ticketed
pub mod Recorded
pub mod Drained
pub mod Quiet
mod Frames
