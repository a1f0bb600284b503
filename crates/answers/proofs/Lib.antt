-- What a call returns and leaves by its causes, and that its number and place tell its answer.
pub mod Causes
pub mod Jobs
pub mod Cases
