pub mod Linear
pub mod Resolved
pub mod Facts
pub mod Bare
pub mod Remainder
pub mod Sums
pub mod ChainMaps
pub mod Coefficients
pub mod OneProduct
pub mod Existence
pub mod Bridge
pub mod Quasi
pub mod Cut
pub mod Counts
mod Examples
