-- The store of a row, and what columns and then rows make of a block.
pub mod Stores
pub mod Blocks
