pub mod Sheet
pub mod Opposite
