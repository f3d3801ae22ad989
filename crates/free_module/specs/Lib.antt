pub mod FreeModule
pub mod Graded
pub mod FreeBasis
pub mod LinearMap
pub mod Columns
pub mod Inside
