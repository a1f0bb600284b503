-- The laws of the transform, from the bottom up.
pub mod Factors
pub mod Orthogonal
pub mod Inverse
pub mod Bound
pub mod Dimensions
pub mod Conjugates
pub mod Parts
pub mod Classes
pub mod Halves
pub mod IntegerBack
pub mod First
