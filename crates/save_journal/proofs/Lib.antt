mod Append
pub mod Retaining
pub mod Bytes
mod Entry
mod Examples
mod Frames
pub mod Opened
mod ReadTo
mod Standing
mod Torn
pub mod Walk
