pub mod Preconditions
pub mod ToFloats
