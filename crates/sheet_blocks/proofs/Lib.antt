-- The laws of a sheet's blocks.
pub mod Output
pub mod Samples
pub mod Sums
pub mod Loop
