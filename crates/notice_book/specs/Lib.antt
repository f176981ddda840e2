pub mod Told
pub mod Numbered
pub mod NoticeBooks
