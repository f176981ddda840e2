pub mod PendingLaws
pub mod Numbers
