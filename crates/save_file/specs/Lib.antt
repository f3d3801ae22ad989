pub mod Bodies
pub mod Reading
pub mod Saved
pub mod Laws
pub mod Files
pub mod Exactness
pub mod Saving
pub mod Inside
