pub mod WildLives
