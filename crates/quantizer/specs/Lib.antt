pub mod ZigZag
pub mod Quantizer
