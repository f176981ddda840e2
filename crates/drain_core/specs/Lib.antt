-- the drain's commands and clocks
pub mod Drain
pub mod Standing
-- what its parts do to a channel
pub mod Steps
-- the drain whose actions are asked for one by one
pub mod Paying
-- drains side by side
pub mod AtOnce
