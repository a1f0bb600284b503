-- Packing and unpacking are inverse.
pub mod Packing
