mod Words
mod Squares
mod Heads
pub mod Files
mod Examples
