pub mod Square
pub mod Decide
mod Minimal
mod Examples
