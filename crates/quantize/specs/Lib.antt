pub mod Preconditions
pub mod Quantize
