pub mod Built
pub mod Constructed
