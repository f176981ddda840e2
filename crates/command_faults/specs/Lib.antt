pub mod Exit
pub mod Named
