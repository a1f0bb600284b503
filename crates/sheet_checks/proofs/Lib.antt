-- The laws of the check.
pub mod Heads
pub mod Faults
pub mod Sheets
pub mod Causes
