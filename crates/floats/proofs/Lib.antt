-- The laws of the viewer's floats.
pub mod Fractions
pub mod Comparison
pub mod Examples
