mod Examples
pub mod Ranges
pub mod ExponentLemmas
pub mod Fronts
mod Blocks
pub mod BasisLemmas
mod FiniteSums
pub mod Kummer
pub mod MatrixList
pub mod Homogeneous
pub mod LeftUnit
mod Bits
mod Counting
mod Digits
mod Fill
mod FreeRows
mod RowZero
mod FreeFill
pub mod FreeTable
mod PlacesLeft
mod Weights
mod FirstRow
mod FirstTurn
mod RowPlaces
mod FreeStart
pub mod Matrices
pub mod Parity
mod ProductTerms
pub mod Prune
mod Steps
mod Sums
mod Walk
pub mod Places
pub mod Pairs
pub mod TextLemmas
pub mod Crossing
