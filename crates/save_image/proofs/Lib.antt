pub mod Pages
pub mod Found
pub mod Again
pub mod BodyLaws
