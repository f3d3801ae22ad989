mod Vectors
pub mod Part
pub mod Faults
mod Verdict
pub mod Alike
