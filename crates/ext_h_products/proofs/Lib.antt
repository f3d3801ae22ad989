pub mod Counts
mod Powers
pub mod Rows
mod Told
