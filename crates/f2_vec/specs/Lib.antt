pub mod Vectors
pub mod Bytes
pub mod Spans
pub mod Inside
