-- The laws that every other crate cites.
pub mod Integer
pub mod Magnitudes
pub mod Division
pub mod Reciprocal
pub mod Nearest
pub mod Signed
pub mod Sums
pub mod Ranges
pub mod Search
pub mod Foremost
pub mod Tables
pub mod Overwriting
pub mod Tests
pub mod Parts
