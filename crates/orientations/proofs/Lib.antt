-- What an orientation does to a block and to a set, and that a block's elements follow its samples.
pub mod Places
pub mod Sets
pub mod Blocks
