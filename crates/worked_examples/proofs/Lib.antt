-- The worked examples that 01 stars hold.
pub mod Constant
pub mod Examples
