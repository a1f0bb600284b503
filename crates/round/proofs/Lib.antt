-- Which calls are accepted, and what they leave.
pub mod Acceptance
pub mod Meaning
