pub mod Board
pub mod Entries
pub mod Inside
pub mod Laws
pub mod Machine
