pub mod Names
pub mod Spec
pub mod Sorting
pub mod WellFormed
