pub mod Crossing
pub mod Ended
mod Gone
mod Placed
