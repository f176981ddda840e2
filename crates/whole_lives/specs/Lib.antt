-- the events and their answers
pub mod Events
-- what a call of a store comes to
pub mod Lives
