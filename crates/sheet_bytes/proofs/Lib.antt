-- The laws of what the programs share.
pub mod Inputs
pub mod Programs
