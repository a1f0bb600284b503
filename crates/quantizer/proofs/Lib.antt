-- The zig-zag order is a permutation of the places; quantized values and dequantized coefficients; examples of both.
pub mod ZigZag
pub mod Values
pub mod Examples
