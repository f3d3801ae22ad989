-- What a vector is inside. No clause of a public call says any of it.
pub mod Packed
pub mod Blocks
