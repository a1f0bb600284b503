pub mod Answer
pub mod Job
