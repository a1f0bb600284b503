-- The laws of the range of a coefficient sheet.
pub mod Causes
pub mod Extremes
pub mod Meaning
