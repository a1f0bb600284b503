pub mod Dequantize
pub mod Narrow
