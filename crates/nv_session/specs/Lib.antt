-- what calls on a module come to
pub mod Coming
pub mod Turns
pub mod ReadTurns
pub mod SaveTurns
-- how a life begins, and the life of a session
pub mod Living
pub mod Restoring
pub mod SessionLives
-- sessions as values
pub mod Sessions
pub mod Faults
pub mod Copies
