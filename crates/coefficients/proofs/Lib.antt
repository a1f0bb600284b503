-- The table numbers, what fits where, the halves that are 0, the code's own sums, how near coefficients are, and the coefficients of a set.
pub mod Tables
pub mod Widths
pub mod Sizes
pub mod Halves
pub mod Steps
pub mod Distance
pub mod Blocks
