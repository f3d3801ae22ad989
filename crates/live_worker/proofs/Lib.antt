mod Calls
mod Squares
mod Telling
mod Watching
mod Rows
mod Crossing
mod Made
pub mod Reported
mod Joined
