pub mod Totals
pub mod Rising
pub mod Counting
pub mod Charging
