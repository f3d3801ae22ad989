pub mod Courses
mod Schedules
mod Starts
pub mod Ranges
pub mod Desks
mod Held
mod Turning
mod Answered
pub mod Failing
pub mod Seen
pub mod Passes
pub mod Made
pub mod Crossing
mod Ended
mod Waiting
pub mod Working
