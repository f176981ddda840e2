-- how many writes the actions of drains take into the arrays, and what the payments for them are for a gauge
pub mod Entries
