pub mod Fraction
pub mod Root
pub mod Value
pub mod Width
