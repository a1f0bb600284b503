-- What the definitions of fractions, cosines as roots and rounding mean.
pub mod Roots
pub mod Order
pub mod Below
pub mod Some
pub mod Tables
pub mod Bounds
pub mod Error
pub mod Coefficient
