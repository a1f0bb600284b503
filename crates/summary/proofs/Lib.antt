-- The largest magnitude and its place, which calls are accepted, and what they give.
pub mod Acceptance
pub mod Magnitudes
pub mod Meaning
