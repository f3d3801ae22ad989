pub mod Squares
pub mod Tables
pub mod Growing
pub mod Below
pub mod Keeping
pub mod Inside
