-- The figures of the limits.
pub mod Figures
