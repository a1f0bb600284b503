-- The laws of the sheet job.
pub mod Causes
pub mod Exits
pub mod Meaning
pub mod Opposite
