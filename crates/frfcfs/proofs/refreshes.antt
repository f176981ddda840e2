pub mod IntervalFits
pub mod RefreshCounts
pub mod RowsClosed
pub mod OffersInTime
pub mod OwnRefreshes
pub mod MarginEnds
pub mod NextKeeps
