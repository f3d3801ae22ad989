pub mod Sums
mod Packed
mod Lanes
pub mod Moved
mod Blocks
mod Cut
mod WordSet
mod Appended
mod Next
mod Turned
mod Four
pub mod Ones
pub mod Spans
pub mod Split
pub mod Combinations
pub mod Bytes
mod ByteWords
mod Spare
pub mod Crossing
