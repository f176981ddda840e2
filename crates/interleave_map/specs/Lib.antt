pub mod Cells
pub mod Interleaving
pub mod Inverse
pub mod Map
pub mod Ready
