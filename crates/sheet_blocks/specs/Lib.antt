pub mod Blocks
pub mod Preconditions
pub mod Sums
