pub mod Stocks
pub mod Words
pub mod Worked
pub mod Inside
