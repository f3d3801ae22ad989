pub mod Footings
pub mod Pushes
pub mod Orders
pub mod Progress
mod Untouched
pub mod Canonical
