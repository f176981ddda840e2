pub mod NoFloats
pub mod Lines
