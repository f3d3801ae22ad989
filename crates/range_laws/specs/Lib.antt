pub mod Ranges
pub mod Extended
