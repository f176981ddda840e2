pub mod Common
pub mod Gaps
pub mod LawfulLists
pub mod Settling
pub mod Rested
pub mod OneCommand
pub mod Closing
pub mod Refreshing
pub mod Entering
pub mod Sleeping
pub mod Spending
pub mod Whole
mod DrainExamples
pub mod Beginning
pub mod Resting
pub mod OpenBanks
pub mod Parts
pub mod ClosingChannel
pub mod RefreshingChannel
pub mod SleepingChannel
pub mod EnteringChannel
pub mod PendingPlaces
pub mod ClocksRise
pub mod DrainingChannel
pub mod PaidDrain
mod JoinedReports
mod JoinedWaits
