-- The laws of the ring, from the bottom up.
pub mod Linear
pub mod Product
pub mod Components
pub mod Forms
pub mod Magnitude
pub mod Ring
pub mod Cosines
pub mod Conjugates
pub mod Dots
