-- The laws of text.
pub mod Decimals
pub mod Lines
pub mod Reading
