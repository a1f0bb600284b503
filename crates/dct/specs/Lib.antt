pub mod Inverse
pub mod Rows
pub mod T81
pub mod Transform
