-- counts, and sums over channels
pub mod Counted
pub mod Summing
-- what the logs tell of a machine
pub mod ToldOf
-- writes and reads that a channel is given
pub mod GivenTo
-- a channel's own steps as events
pub mod OwnRuns
pub mod ReadLines
-- the machine of a front with one channel's part
pub mod Lent
-- the pieces of a module, and the machine for which it and they stand
pub mod Gathered
pub mod SameSplit
