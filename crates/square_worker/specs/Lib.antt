pub mod Kept
pub mod Openings
pub mod Worked
pub mod Inside
