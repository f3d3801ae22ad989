mod Members
pub mod Unique
mod Exists
mod Answers
mod MoreSquares
mod Transport
mod Limits
