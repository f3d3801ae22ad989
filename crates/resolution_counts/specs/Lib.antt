pub mod Counts
pub mod Cochains
