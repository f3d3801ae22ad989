pub mod Sums
pub mod Coefficients
pub mod Order
mod Generated
pub mod OnGenerators
