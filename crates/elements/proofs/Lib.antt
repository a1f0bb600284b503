-- What the operations on elements mean, and how far they let components grow.
pub mod Componentwise
pub mod Products
pub mod Bounds
pub mod Buffers
pub mod Angles
