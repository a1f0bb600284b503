-- The test of cause 4, the sets that pass it, and sets with all components negated.
pub mod Limit
pub mod Negated
