-- Which calls are accepted, and what they leave, also after quantize and before it.
pub mod Acceptance
pub mod Meaning
