pub mod Answers
pub mod Inside
pub mod Layouts
pub mod Listing
pub mod Table
