pub mod Lifting
pub mod Classes
pub mod Sources
pub mod Inside
