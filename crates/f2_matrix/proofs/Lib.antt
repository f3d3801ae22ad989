mod RowOperations
pub mod Elimination
mod BlockSteps
mod BlockSums
mod BlockParts
mod RowBlocks
mod NextParts
mod SortSteps
pub mod Unique
pub mod Split
pub mod Kept
pub mod Parts
pub mod Pivots
pub mod Preimages
mod Inserted
mod Extended
pub mod Eliminate
pub mod FromParts
mod OneRowMore
mod AddedBeside
pub mod Spanning
mod Within
mod Determined
pub mod Crossing
pub mod Choice
