-- Which calls are accepted and refused, and what accepted ones leave, by themselves and after one another.
pub mod Acceptance
pub mod Meaning
