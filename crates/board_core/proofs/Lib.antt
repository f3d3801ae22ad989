pub mod BelowFronts
pub mod Causes
pub mod Crossing
pub mod Filed
pub mod Given
mod Growth
pub mod Histories
mod LeastReady
mod Lengths
pub mod OpenTakes
pub mod Pairs
pub mod Places
mod Progress
mod Ready
mod RowsOut
pub mod Short
mod Sound
pub mod Starts
mod Waiting
