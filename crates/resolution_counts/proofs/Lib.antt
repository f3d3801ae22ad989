mod Bare
mod Maps
pub mod Cover
mod Compare
pub mod Counts
mod Cochains
mod Values
mod Degrees
