pub mod Standing
pub mod Resolved
pub mod Making
pub mod Rectangle
mod Columns
pub mod Contents
