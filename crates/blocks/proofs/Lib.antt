-- A block's elements in a buffer.
pub mod Blocks
