pub mod Back
pub mod Refusal
