pub mod Certified
pub mod Inside
