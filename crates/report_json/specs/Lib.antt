pub mod Verdicts
pub mod Meanings
pub mod Crashes
pub mod Checked
