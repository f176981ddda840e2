mod RuleSteps
mod Telling
pub mod ReadLines
