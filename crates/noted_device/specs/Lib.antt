-- changes that are noted
pub mod Notes
