pub mod Numbers
pub mod Standing
pub mod Margins
pub mod MarginsStanding
pub mod Lists
pub mod Texts
pub mod Telling
