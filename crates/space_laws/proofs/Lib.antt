mod Places
mod Action
pub mod Accepted
pub mod Files
