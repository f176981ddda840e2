-- how a life goes on by calls
pub mod Lives
-- an open life as it is
pub mod Now
-- the events of a read
pub mod Reads
-- how a life begins
pub mod Begins
-- one of two devices
pub mod Either
-- the changes that a device notes
pub mod Noted
