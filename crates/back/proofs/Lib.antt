-- The comparison that decides, the ways out of the job, and what it means.
pub mod Comparison
pub mod Candidate
pub mod Causes
pub mod Meaning
