-- the state, and what each event makes of it
pub mod State
pub mod Refusals
pub mod Moves
pub mod Losses
pub mod Machine
-- what is true of each image that a stop may leave
pub mod Guard
-- one event and a run of events: what a stop leaves, and what an honest gauge is enough for
pub mod Headline
pub mod Honesty
pub mod Rising
pub mod SavedImages
pub mod Tickets
pub mod WaitingOrder
-- lives in a chain, and what a restore finds after them
pub mod Opening
pub mod Lives
pub mod Causes
pub mod Survival
pub mod StoppedRuns
