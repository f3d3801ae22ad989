pub mod Stocks
pub mod Courses
pub mod Openings
pub mod Jobs
pub mod Desks
pub mod Boards
pub mod Workers
pub mod Inside
