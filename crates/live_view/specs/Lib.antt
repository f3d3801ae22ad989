pub mod Counted
pub mod Views
pub mod Published
pub mod Handles
pub mod Publishing
pub mod Chart
pub mod Inside
