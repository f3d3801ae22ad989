pub mod Brackets
pub mod Inside
