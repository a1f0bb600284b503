-- The columns and the rows of the way back, and the block that they restore.
pub mod Columns
pub mod Rows
