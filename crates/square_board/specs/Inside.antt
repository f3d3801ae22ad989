-- What private contracts and the invariants cite.
pub mod Schedules
pub mod Starts
