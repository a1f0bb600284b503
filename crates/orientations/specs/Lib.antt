pub mod Orientation
pub mod Numbers
