pub mod Decimal
pub mod Parts
