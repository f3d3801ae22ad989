pub mod Acceptance
pub mod Inside
