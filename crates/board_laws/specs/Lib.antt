pub mod Filled
pub mod Schedules
