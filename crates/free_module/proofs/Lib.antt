pub mod BlockSteps
pub mod FreeBasis
mod Generators
pub mod MapRows
mod TermSums
pub mod PairSums
pub mod Columns
