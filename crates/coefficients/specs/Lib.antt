pub mod Coefficients
pub mod Preconditions
pub mod Tables
pub mod Widths
