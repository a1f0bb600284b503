pub mod Angle
pub mod Bound
pub mod Buffer
pub mod Continued
