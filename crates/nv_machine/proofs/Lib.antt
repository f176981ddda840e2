-- the words that most proofs cite, passed on
pub mod Common
-- modes and refusals
pub mod ModeLaws
pub mod Refusing
-- what an event makes of the machine: nothing, or one of its moves
pub mod Effects
-- what the machine keeps, move by move and in any event, and what becomes of its life
pub mod Guarded
pub mod GuardLaws
pub mod Proceeding
pub mod GuardMoves
pub mod EachEvent
-- what an honest gauge is enough for
pub mod Backing
pub mod Payments
pub mod HonestLosses
pub mod HonestEvents
-- what a stop leaves
pub mod Leaving
-- what a run of events comes to
pub mod JoinedRuns
pub mod RisingMarks
-- the writes that the replies of a run accepted, and their numbers
pub mod AcceptedWrites
pub mod GivenTickets
pub mod OrderedWrites
pub mod PaidEntries
pub mod HonestRuns
pub mod CountedFaults
pub mod SparedDevices
-- lives in a chain, and what a restore finds after them
pub mod StoppedLives
pub mod SavedImages
pub mod History
pub mod Caused
pub mod SurvivedLives
pub mod StoppedRuns
