pub mod NoFloats
