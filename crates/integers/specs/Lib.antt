pub mod Kit
pub mod Nearest
pub mod Range
pub mod Search
pub mod Sum
pub mod Table
pub mod Test
