pub mod Counts
pub mod Pieces
mod Listing
mod Binomials
pub mod Cells
pub mod Bounds
pub mod Basis
pub mod Reading
pub mod Sizes
mod Parts
mod Squares
pub mod Entries
mod Numbering
pub mod Repeats
mod Examples
